pub mod Stripped
pub mod Allowed
pub mod Parts
pub mod Promises
