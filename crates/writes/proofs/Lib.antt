pub mod Into
pub mod Writing
pub mod Room
