pub mod Names
pub mod Registers
pub mod Text
pub mod Calls
pub mod Buffers
