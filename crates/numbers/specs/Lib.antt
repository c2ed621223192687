pub mod Numbers
pub mod Movement
