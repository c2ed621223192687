pub mod Considered
pub mod MovementSheets
pub mod Answers
pub mod Promises
