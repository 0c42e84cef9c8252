-- The modules of this crate's specs.
pub mod Structs
pub mod Checks
pub mod Looked
