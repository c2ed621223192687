pub mod Totals
mod Growing
