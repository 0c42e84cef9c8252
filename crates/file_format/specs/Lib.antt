-- The modules of this crate's specs.
pub mod Answers
pub mod AbilitySet
pub mod Indexes
