-- The modules of this crate's specs.
pub mod Arguments
pub mod Places
