-- The modules of this crate's proofs.
pub mod Heights
pub mod Blocks
