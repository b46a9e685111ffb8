pub mod FetchLaws
pub mod HalfLaws
pub mod Determined
