pub mod Shape
pub mod Starts
pub mod Read
pub mod size
pub mod dead
