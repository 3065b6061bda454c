-- Definitions of what the program is asked for, and of what it leaves.
pub mod Commands
pub mod Outputs
