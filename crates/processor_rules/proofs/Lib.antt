pub mod LiftLaws
pub mod SixLaws
pub mod AnswerLaws
