pub mod Loops
pub mod Remainders
