pub mod Example
pub mod Stating
mod Telling
pub mod TextOfRun
mod Texts
pub mod Weighed
