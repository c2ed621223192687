mod Filling
pub mod Opened
pub mod Opening
pub mod Promises
