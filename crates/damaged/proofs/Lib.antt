pub mod Considered
