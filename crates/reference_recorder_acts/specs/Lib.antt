pub mod Acts
pub mod Bytes
