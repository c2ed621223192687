pub mod Meaning
pub mod GroupArcs
pub mod Accepted
pub mod Listed
pub mod RefusalTables
pub mod Emits
