pub mod Bytes
pub mod Version
pub mod Layout
pub mod Rule
pub mod Checks
pub mod Held
