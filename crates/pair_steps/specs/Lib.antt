-- The module of this crate's specs.
pub mod Integers
