pub mod RowLaws
pub mod StoreLaws
pub mod ScheduleLaws
pub mod ExactLaws
mod Cases
