-- The lemmas of this crate's proofs.
pub mod DerivedTypes
pub mod Fields
