-- The modules of this crate's specs.
pub mod Effects
pub mod Answers
