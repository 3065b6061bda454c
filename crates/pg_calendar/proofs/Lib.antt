-- The lemmas of the calendar and of its texts.
pub mod CivilDays
pub mod CivilOrder
pub mod Outcomes
pub mod Padding
pub mod TimestampTexts
