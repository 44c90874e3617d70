pub mod Splits
pub mod Files
pub mod Equal
pub mod Preceding
pub mod Right
pub mod Prefixes
