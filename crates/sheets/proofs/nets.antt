mod Names
pub mod TailsRead
pub mod GroupsRead
pub mod Valid
mod TailTests
mod NameTests
