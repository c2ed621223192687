pub mod Written
pub mod Promises
pub mod Puts
