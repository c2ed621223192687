pub mod Converted
pub mod Allowed
pub mod Parts
pub mod Promises
pub mod strip
