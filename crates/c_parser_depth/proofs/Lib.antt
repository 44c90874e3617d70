pub mod Longest
pub mod Lists
pub mod Measures
pub mod Follows
pub mod Answer
