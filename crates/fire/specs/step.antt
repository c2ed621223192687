pub mod Calls
pub mod Tabled
pub mod Sums
pub mod Parts
pub mod Allowed
