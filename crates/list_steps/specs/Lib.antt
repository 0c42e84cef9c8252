-- The modules of this crate's specs.
pub mod Forms
pub mod Made
pub mod Pops
pub mod Pushes
