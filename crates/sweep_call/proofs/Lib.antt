pub mod SweepPassed
