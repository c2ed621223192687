pub mod Agrees
pub mod Pnml
pub mod Singles
