pub mod Checks
pub mod Pasts
