pub mod Laid
pub mod Placed
