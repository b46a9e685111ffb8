pub mod FormLaws
pub mod TableLaws
pub mod EntryLaws
pub mod RowLaws
