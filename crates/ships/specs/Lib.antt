pub mod Ships
pub mod Entered
pub mod Promises
