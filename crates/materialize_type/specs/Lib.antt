-- The modules of this crate's specs.
pub mod Materialize
pub mod Materialized
