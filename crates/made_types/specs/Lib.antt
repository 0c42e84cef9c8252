-- The modules of this crate's specs.
pub mod Made
pub mod Pushes
