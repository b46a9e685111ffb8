pub mod PlanLaws
pub mod Determined
