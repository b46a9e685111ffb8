pub mod Texts
pub mod Rows
pub mod Places
pub mod Instructions
pub mod RoundTrip
pub mod Calls
