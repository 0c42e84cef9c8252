-- The modules of this crate's specs.
pub mod Inner
