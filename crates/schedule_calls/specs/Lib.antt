pub mod Words
pub mod Turns
pub mod Calls
pub mod Asked
