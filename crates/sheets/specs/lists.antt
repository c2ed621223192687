pub mod Movements
pub mod Weights
pub mod Allowed
pub mod Promises
