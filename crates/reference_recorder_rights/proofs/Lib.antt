pub mod HandedDown
pub mod Touching
