pub mod Exports
pub mod Allowed
pub mod Bounds
pub mod Promises
pub mod elements
pub mod texts
