pub mod Allowed
pub mod Example
pub mod Promises
pub mod Replay
pub mod lines
pub mod fleet
pub mod weigh
pub mod exclude
