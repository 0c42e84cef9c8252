-- The modules of this crate's specs.
pub mod Lookups
