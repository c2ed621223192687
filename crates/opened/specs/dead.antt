pub mod IsDead
pub mod FirstDead
pub mod Promises
pub mod Allowed
