pub mod Allowed
pub mod Parts
