-- Definitions of lines and their answers.
pub mod Answers
pub mod Lines
