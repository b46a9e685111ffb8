pub mod Fields
pub mod Tables
pub mod Layout
pub mod Calls
pub mod Conditions
