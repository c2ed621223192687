mod ArcPuts
mod Segments
mod Parts
pub mod Answers
pub mod Promises
