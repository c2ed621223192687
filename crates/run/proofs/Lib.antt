mod Certifying
pub mod Promises
pub mod Reporting
pub mod Running
