pub mod Lowered
pub mod Depths
pub mod Named
pub mod Types
