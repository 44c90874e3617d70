pub mod Bytes
pub mod Weights
pub mod Structs
pub mod Steps
