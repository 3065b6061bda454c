-- The lemmas of this crate's proofs.
pub mod ArraySteps
pub mod BitWriting
pub mod BuilderSteps
pub mod BuiltLaws
pub mod BuiltSteps
pub mod DateSteps
pub mod ElementSteps
pub mod HeadSteps
pub mod KindSteps
pub mod NetworkSteps
pub mod PushSteps
pub mod ReadingSteps
pub mod RecordSteps
pub mod RewritingSteps
pub mod TypeSteps
pub mod WalkSteps
pub mod WritingSteps
