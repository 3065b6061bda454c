-- The lemmas of this crate.
pub mod Forms
pub mod Strings
pub mod Bodies
pub mod NoticeFields
pub mod MessageLaws
mod CommandTags
