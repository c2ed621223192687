pub mod Lines
pub mod Gathered
pub mod parts
