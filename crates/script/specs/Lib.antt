pub mod Lent
pub mod Lines
