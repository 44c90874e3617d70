pub mod Sayings
pub mod Setting
pub mod Walks
