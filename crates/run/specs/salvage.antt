pub mod MovementSheet
pub mod Salvaged
pub mod Allowed
pub mod Parts
pub mod Promises
