pub mod WordLaws
pub mod TurnLaws
mod RunLaws
pub mod Theorems
