mod Bounds
mod ByNumbers
pub mod Tried
