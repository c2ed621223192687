pub mod Arcs
pub mod Bare
pub mod OldModes
pub mod StripWellFormed
