-- Definitions of writing.
pub mod ArrayWriting
pub mod ListRoom
pub mod OptionWriting
pub mod ParamWriting
pub mod Writing
