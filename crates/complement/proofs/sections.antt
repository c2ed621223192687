mod Kept
pub mod Read
pub mod Fields
mod Counts
pub mod Every
mod Surveys
mod Plain
pub mod PlaceHalves
pub mod ModeHalves
pub mod Rows
mod Counted
