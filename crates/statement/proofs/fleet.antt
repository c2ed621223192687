mod Weighing
pub mod Entering
