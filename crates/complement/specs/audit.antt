pub mod Audits
pub mod Parts
pub mod Promises
pub mod Allowed
