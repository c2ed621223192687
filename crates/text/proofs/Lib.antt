pub mod Decimals
mod LastDigits
mod Puts
pub mod Sizes
