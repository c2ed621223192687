pub mod Bounds
pub mod Searches
pub mod Promises
