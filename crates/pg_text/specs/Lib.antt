-- Definitions for the contracts of this crate.
pub mod Floats
pub mod Intervals
pub mod Items
pub mod Lists
pub mod Maps
pub mod Network
pub mod Numerics
pub mod Quotes
pub mod ReadBack
pub mod Scans
pub mod Small
pub mod Spaces
pub mod Specials
pub mod Texts
