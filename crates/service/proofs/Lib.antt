pub mod TurnLaws
mod OrderLaws
pub mod OutcomeLaws
