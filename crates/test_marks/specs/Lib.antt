pub mod Images
pub mod Sides
