pub mod Characters
pub mod Mnemonics
pub mod Forms
pub mod Lines
pub mod Entries
pub mod Back
pub mod Items
pub mod Listings
