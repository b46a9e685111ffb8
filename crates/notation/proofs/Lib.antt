pub mod PieceLaws
pub mod DataLaws
pub mod Determined
