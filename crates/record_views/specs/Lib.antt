-- The modules of this crate's specs.
pub mod Records
pub mod Reread
