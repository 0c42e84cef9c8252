-- The modules of this crate's specs.
pub mod Places
pub mod Locals
