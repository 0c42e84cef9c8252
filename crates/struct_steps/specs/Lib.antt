-- The modules of this crate's specs.
pub mod Fields
pub mod Packing
