pub mod Situations
pub mod Rows
pub mod Pausing
pub mod Plainly
pub mod InTurn
pub mod Witness
