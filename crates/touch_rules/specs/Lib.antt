pub mod Told
pub mod Touches
pub mod TouchCalls
