pub mod Sides
pub mod Parts
pub mod Reads
pub mod Ends
pub mod Stores
pub mod Halves
pub mod Steps
pub mod Conditions
