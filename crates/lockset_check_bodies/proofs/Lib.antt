pub mod Lists
pub mod Passing
pub mod Sources
pub mod Weights
