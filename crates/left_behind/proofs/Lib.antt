pub mod LeftBehindExamples
pub mod StaysInTheSum
pub mod WrongBy
