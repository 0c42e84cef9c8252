-- The modules of this crate's specs.
pub mod Pairs
pub mod Answers
pub mod Lookups
