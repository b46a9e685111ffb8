pub mod ListingLaws
pub mod TextLaws
pub mod Determined
pub mod LineLaws
