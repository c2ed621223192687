pub mod Sizes
pub mod Allowed
