pub mod Reached
pub mod Answers
