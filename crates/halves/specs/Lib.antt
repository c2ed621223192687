pub mod Entries
pub mod Bounded
pub mod Pairs
