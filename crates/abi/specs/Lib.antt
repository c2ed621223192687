pub mod Told
pub mod Allowed
