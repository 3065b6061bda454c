-- The lemmas of this crate's proofs.
mod ArrayCellSteps
mod ElementSteps
mod FirstFrames
mod FirstValues
mod FixedSizeSteps
mod LastEntries
mod ListSteps
mod Refusals
mod RunFrames
mod RunSteps
