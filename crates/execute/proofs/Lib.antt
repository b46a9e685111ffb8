pub mod PieceLaws
pub mod WindowLaws
pub mod ControlWorks
pub mod JumpWorks
pub mod RegisterWorks
pub mod MemoryWorks
pub mod CodeLaws
pub mod Determined
