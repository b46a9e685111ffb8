pub mod Writes
pub mod Plans
