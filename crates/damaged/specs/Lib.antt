pub mod Damaged
pub mod Parts
