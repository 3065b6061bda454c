-- Definitions of the calendar and of its texts.
pub mod Calendar
pub mod Texts
