-- The modules of this crate's specs.
pub mod Token
pub mod TokenLaws
pub mod Lists
pub mod Encoded
pub mod Ends
pub mod Plain
pub mod Passing
pub mod Same
pub mod Standing
pub mod Kept
