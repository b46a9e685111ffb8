pub mod LengthLaws
pub mod LineLaws
pub mod Determined
pub mod WordLaws
pub mod RegisterLaws
