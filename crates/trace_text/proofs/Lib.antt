pub mod TextLaws
pub mod TraceLaws
pub mod Determined
pub mod Shown
