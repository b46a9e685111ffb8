mod PasteLaws
pub mod UnusedLaws
pub mod RowLaws
pub mod ListLaws
pub mod Determined
pub mod Readers
pub mod StepLaws
