pub mod Memories
pub mod LeftBytes
