-- Definitions for the contracts of this crate.
pub mod Reading
pub mod Refusals
pub mod Tuples
