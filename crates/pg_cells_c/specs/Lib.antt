-- Definitions of the functions for C.
pub mod ArrayRewriting
pub mod Arrays
pub mod Builders
pub mod Built
pub mod DateParts
pub mod Dates
pub mod Elements
pub mod FaultTexts
pub mod Kinds
pub mod Networks
pub mod Readings
pub mod Records
pub mod Rewriting
pub mod Spans
pub mod Walks
pub mod Writings
