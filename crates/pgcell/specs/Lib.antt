-- Definitions of names, of rewriting a cell by a name, and of lines and their answers.
pub mod Answer
pub mod Entries
pub mod Norm
pub mod Request
pub mod Rewritten
