pub mod Text
pub mod Numbers
pub mod Sums
pub mod Trees
pub mod Operands
pub mod Statements
pub mod Assembly
