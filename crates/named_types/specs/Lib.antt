-- Definitions of names.
pub mod BaseNames
pub mod Names
