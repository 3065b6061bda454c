-- Definitions for the contracts of this crate.
pub mod Backend
pub mod Beginnings
pub mod Commands
pub mod Fields
pub mod Framing
pub mod Frontend
pub mod Laws
pub mod Notices
pub mod Reading
pub mod Receiving
