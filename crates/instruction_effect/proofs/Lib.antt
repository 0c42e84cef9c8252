-- The modules of this crate's proofs.
pub mod Table
pub mod Looked
