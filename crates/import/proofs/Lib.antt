mod Left
mod Overwritten
mod ArcBytes
pub mod Singles
mod LineWrites
mod Loops
mod Answers
mod SheetRoom
pub mod Promises
pub mod RefusalTable
