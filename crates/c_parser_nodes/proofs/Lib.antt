pub mod Sums
pub mod Lists
pub mod Measures
pub mod Follows
