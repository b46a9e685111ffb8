pub mod CellLaws
pub mod Determined
