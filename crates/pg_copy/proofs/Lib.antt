-- The lemmas of this crate's proofs.
mod ArgumentLaws
mod ArrayBounds
mod CellTexts
mod ColumnLaws
mod CompositeSteps
mod EndLaws
mod EscapeLaws
mod EscapeTable
mod LineLaws
mod PlainLanes
mod QuoteLaws
mod ReadingLaws
mod ReadingRuns
mod RecordFaults
pub mod Records
mod RefusalLaws
mod RowLaws
mod StopLaws
mod TextLaws
mod TypeTexts
pub mod Wires
mod WordLaws
mod WrittenLaws
pub mod WrittenRecords
