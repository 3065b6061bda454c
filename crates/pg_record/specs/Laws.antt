-- Lemmas that the sources cite. Their statements are proved, so none of them has to be trusted.
pub mod InventoryItems
pub mod Mood
