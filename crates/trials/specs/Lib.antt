pub mod Measures
pub mod Runs
pub mod Session
pub mod Sums
