pub mod LineSizes
mod Worded
