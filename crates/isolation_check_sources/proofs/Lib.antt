pub mod Members
pub mod Accepted
