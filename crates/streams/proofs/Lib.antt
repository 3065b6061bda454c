-- The lemmas of this crate's proofs.
mod Answers
mod FirstBytes
mod LineLaws
pub mod Outcomes
mod Sent
mod Steps
