pub mod Setups
pub mod Fetches
pub mod Moves
