pub mod Promises
pub mod Runs
pub mod Figures
pub mod Exclusion
