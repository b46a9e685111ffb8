pub mod Puts
pub mod Tests
