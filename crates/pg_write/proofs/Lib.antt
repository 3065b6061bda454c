-- The lemmas of this crate's proofs.
pub mod ElementCells
pub mod Insertion
mod ElementFrames
mod KeyOrder
pub mod ListRoom
mod ParamFrames
mod ParamLists
mod ParamRoom
pub mod SameEntries
