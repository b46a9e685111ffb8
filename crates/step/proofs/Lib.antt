pub mod TurnLaws
pub mod Determined
