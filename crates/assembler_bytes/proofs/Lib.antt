pub mod LaidLaws
pub mod WorthLaws
pub mod DataLaws
pub mod PlacedLaws
