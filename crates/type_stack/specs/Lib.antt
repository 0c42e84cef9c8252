-- The modules of this crate's specs.
pub mod Answers
pub mod Spliced
pub mod Held
pub mod Tops
pub mod Stepping
pub mod Pushing
pub mod Leading
pub mod Listed
pub mod Walking
