pub mod Joined
pub mod Met
pub mod Program
pub mod Image
pub mod Powering
pub mod Sweeps
pub mod SweepCases
