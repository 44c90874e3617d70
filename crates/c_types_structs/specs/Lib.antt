pub mod Members
pub mod Entries
