pub mod Arcs
pub mod Places
pub mod DeadModes
