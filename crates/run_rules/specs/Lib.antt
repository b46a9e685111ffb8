pub mod Run
pub mod Board
