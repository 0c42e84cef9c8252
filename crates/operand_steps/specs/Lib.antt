-- The modules of this crate's specs.
pub mod Leaves
pub mod Operands
