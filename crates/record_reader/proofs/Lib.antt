-- The modules of this crate's proofs.
pub mod Types
pub mod Records
