-- The modules of this crate's specs.
pub mod Matching
pub mod Compare
