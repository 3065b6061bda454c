-- The laws of this crate's types.
pub mod Numeric
pub mod NumericOrder
