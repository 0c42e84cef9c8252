-- The modules of this crate's specs.
pub mod ReadTo
pub mod Alike
pub mod Bodies
pub mod BodyLaws
pub mod Walk
pub mod Ends
pub mod Apart
pub mod Sound
