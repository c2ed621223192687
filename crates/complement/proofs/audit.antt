mod Excesses
mod Searches
mod OneEach
pub mod Answers
pub mod Promises
