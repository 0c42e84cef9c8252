-- The modules of this crate's specs.
pub mod Outline
pub mod Filled
pub mod Views
pub mod Parts
pub mod Stand
pub mod WasRead
pub mod Entries
pub mod Standing
