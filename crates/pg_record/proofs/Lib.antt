-- The lemmas of this crate's proofs.
mod ItemFields
