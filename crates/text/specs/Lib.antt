pub mod Ascii
pub mod Promises
pub mod Decimals
pub mod Puts
pub mod Allowed
pub mod LastDigits
pub mod twos
