pub mod Lists
pub mod HandedOn
pub mod Generated
pub mod Made
