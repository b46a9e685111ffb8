pub mod LeftBytes
