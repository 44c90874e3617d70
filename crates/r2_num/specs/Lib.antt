pub mod Kinds
pub mod Conversions
pub mod Operations
