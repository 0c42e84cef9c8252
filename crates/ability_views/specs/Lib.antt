-- The modules of this crate's specs.
pub mod Answers
pub mod Lookups
pub mod Function
