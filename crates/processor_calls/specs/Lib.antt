pub mod Calls
pub mod PairContracts
pub mod Named
