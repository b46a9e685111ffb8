pub mod Premises
pub mod Totals
pub mod Stages
pub mod Rows
