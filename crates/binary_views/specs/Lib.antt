-- The modules of this crate's specs.
pub mod Tables
pub mod Handles
pub mod Abilities
pub mod Gathering
