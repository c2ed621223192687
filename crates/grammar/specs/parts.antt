pub mod Read
pub mod Numbers
pub mod Stands
pub mod Parts
