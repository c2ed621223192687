mod Prefixes
pub mod Steps
pub mod Reading
pub mod Joints
pub mod Literals
mod Threes
pub mod Values
