pub mod Machine
pub mod Shown
