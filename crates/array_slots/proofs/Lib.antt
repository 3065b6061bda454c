-- The lemmas of this crate's proofs.
mod Chains
pub mod Pairs
pub mod RawSlots
pub mod Rooms
