-- Types and faults.
pub mod BuiltInRows
pub mod Content
pub mod Digest
pub mod FaultTexts
pub mod Faults
pub mod KindRefs
pub mod Laws
