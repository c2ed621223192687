mod AtBounds
pub mod Meets
pub mod ByMode
