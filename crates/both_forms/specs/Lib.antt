pub mod Promises
pub mod Edges
pub mod WorkedExamples
pub mod Steps
pub mod WeakExamples
pub mod Orders
pub mod Visits
pub mod Audit
