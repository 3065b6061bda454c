-- The lemmas of this crate's proofs.
pub mod Continuations
pub mod FrontLaws
pub mod HeaderLaws
pub mod TupleLaws
