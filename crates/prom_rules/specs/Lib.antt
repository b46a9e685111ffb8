pub mod Text
pub mod Records
pub mod File
pub mod Load
pub mod Conditions
pub mod Writer
