mod ByMode
mod Parts
mod PartRooms
mod Answers
pub mod Promises
