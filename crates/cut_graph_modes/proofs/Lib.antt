pub mod Parts
pub mod Rows
pub mod Sides
pub mod Reached
