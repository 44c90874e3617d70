pub mod LogText
pub mod Kept
pub mod Reading
pub mod Parsing
pub mod Putting
pub mod Tails
