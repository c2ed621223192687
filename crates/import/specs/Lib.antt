pub mod Promises
pub mod RefusalTable
pub mod Imports
pub mod Allowed
pub mod Parts
pub mod scan
