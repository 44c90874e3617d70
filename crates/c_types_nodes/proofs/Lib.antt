pub mod Kept
pub mod Growing
pub mod Weights
pub mod Ranges
pub mod Lists
