pub mod SpaceLaws
pub mod Determined
