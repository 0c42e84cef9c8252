-- The modules of this crate's specs.
pub mod Borrows
pub mod Operand
pub mod Owners
pub mod Fields
pub mod Program
