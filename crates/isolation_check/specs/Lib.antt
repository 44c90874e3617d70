pub mod Areas
pub mod Rows
pub mod Literals
pub mod Objects
pub mod Flags
pub mod Answers
