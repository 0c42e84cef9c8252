-- The modules of this crate's proofs.
pub mod Known
pub mod TableLoop
pub mod Filling
pub mod Rows
pub mod TablesLoop
pub mod CodeLoop
pub mod Blocks
pub mod Due
pub mod Listed
pub mod Whole
