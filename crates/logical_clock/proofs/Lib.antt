pub mod Places
pub mod Rows
pub mod Longest
pub mod Counting
