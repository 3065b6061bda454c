-- The lemmas of this crate's proofs.
mod BindLaws
pub mod CatalogGrowth
mod ColumnSteps
mod ColumnWrites
mod CopyLaws
pub mod FirstRows
pub mod RefusedReasons
pub mod RefusedRows
mod PartLaws
mod RowIndexLaws
mod RowLaws
mod RowSteps
pub mod Turns
