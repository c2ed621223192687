mod Bits
pub mod Promises
