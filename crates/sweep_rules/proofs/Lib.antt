pub mod RangeLaws
pub mod ConditionLaws
pub mod PassedLaws
pub mod LeftLaws
