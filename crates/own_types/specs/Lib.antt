-- Definitions of the examples.
pub mod Equality
pub mod Ratings
