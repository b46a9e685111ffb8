pub mod Forms
pub mod Table
pub mod Rows
