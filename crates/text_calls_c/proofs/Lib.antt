pub mod Outcomes
pub mod Told
