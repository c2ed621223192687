pub mod Stands
pub mod BigEndian
pub mod Sections
pub mod Records
pub mod SheetLength
pub mod ByMode
pub mod Together
pub mod Versions
mod Groups
mod NetRead
pub mod NetStands
pub mod RoundTrip
mod Accepts
mod NetAccepts
pub mod Puts
pub mod Largest
