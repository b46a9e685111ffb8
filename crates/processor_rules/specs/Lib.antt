pub mod Processors
pub mod Lifting
pub mod Calls
pub mod Lifts
