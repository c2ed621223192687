pub mod Names
pub mod Tails
pub mod Groups
pub mod Nets
pub mod Allowed
