pub mod Lengths
mod Digits
