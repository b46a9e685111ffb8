pub mod RunLaws
pub mod Outcomes
pub mod Bounds
pub mod BoardOutcomes
