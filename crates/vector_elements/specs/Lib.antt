-- The modules of this crate's specs.
pub mod Elements
pub mod Found
