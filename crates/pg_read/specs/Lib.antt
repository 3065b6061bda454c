-- Definitions of reading.
pub mod ArrayReading
pub mod BoxReading
pub mod ElementReading
pub mod FrameReading
pub mod Laws
pub mod OptionReading
pub mod Reading
pub mod RunReading
pub mod Views
