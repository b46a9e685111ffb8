mod NamedLaws
mod ContractLaws
pub mod Theorems
pub mod Passed
pub mod Determined
