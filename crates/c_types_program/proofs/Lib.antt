pub mod Kept
pub mod Vectors
