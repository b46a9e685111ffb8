pub mod Rows
pub mod Counts
pub mod Reports
pub mod Conditions
