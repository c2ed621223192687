pub mod Promises
pub mod Dead
pub mod Complement
pub mod DemandThree
pub mod DeadComplement
