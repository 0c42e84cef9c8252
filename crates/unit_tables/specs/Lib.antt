-- The modules of this crate's specs.
pub mod ReadAs
pub mod Compiled
pub mod Answers
pub mod Tables
