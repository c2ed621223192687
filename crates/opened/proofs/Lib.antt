pub mod Versions
pub mod Shapes
pub mod Segments
mod TwosComplement
pub mod Modes
mod FiniteNumbers
