-- The modules of this crate's specs.
pub mod Bytes
pub mod Instantiate
pub mod Filling
pub mod Size
pub mod Opening
pub mod Counting
