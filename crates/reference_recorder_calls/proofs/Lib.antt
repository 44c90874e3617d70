pub mod Own
pub mod Lists
pub mod Keyed
