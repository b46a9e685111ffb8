pub mod Writes
pub mod Bytes
pub mod Findings
pub mod Effects
pub mod Plan
pub mod Answers
