pub mod Determined
pub mod Passed
pub mod Theorems
