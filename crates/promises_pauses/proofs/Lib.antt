pub mod PausedRows
pub mod PauseNumbers
pub mod PauseWitness
