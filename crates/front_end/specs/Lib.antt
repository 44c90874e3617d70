pub mod Answers
pub mod Errors
pub mod Same
pub mod Sources
