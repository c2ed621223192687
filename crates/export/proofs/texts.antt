pub mod Texts
mod Whole
