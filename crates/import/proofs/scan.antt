mod Heads
mod Choice
mod LineKinds
pub mod Onward
pub mod Answers
