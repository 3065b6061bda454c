-- The lemmas of this crate's proofs.
mod Macaddr8Texts
