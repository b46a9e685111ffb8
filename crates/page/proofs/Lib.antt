pub mod PageLaws
pub mod NumberLaws
pub mod Determined
