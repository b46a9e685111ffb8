pub mod Choosing
pub mod Ranks
pub mod Step
pub mod Conditions
pub mod Touched
