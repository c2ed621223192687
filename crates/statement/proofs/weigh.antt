pub mod Sizes
pub mod Terms
pub mod Answers
pub mod Promises
