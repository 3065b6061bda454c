-- Definitions of the types of this crate.
pub mod InventoryItems
pub mod Laws
pub mod Moods
pub mod SessionIds
pub mod Types
