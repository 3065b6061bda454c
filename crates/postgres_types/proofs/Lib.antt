-- The lemmas of this crate's proofs.
pub mod EnumLabels
pub mod FieldNames
pub mod RecordSteps
mod RewritingLemmas
