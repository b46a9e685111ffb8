pub mod Ranges
pub mod Copies
pub mod Sweep
pub mod Conditions
pub mod Plainly
