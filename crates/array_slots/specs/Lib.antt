-- Definitions for reading arrays from sources.
pub mod Sources
