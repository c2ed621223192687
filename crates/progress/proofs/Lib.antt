mod Along
pub mod Visiting
