pub mod Only
pub mod One
mod Entries
