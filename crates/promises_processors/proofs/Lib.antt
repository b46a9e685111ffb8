pub mod SeenLaws
pub mod RowLaws
pub mod PauseLaws
pub mod PlainLaws
pub mod InTurnLaws
pub mod Witness
