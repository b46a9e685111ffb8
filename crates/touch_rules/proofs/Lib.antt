pub mod ToldLaws
pub mod TouchesLaws
pub mod PackLaws
pub mod TellingLaws
