-- The modules of this crate's proofs.
pub mod Widths
pub mod Instructions
