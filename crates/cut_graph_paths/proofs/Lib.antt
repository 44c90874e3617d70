pub mod Marks
pub mod Paths
