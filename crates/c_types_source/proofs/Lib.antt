pub mod Grown
pub mod Sourced
