pub mod CountLaws
pub mod HeldLaws
pub mod StageLaws
pub mod CopyLaws
pub mod Demand3
