pub mod Threads
pub mod Wants
pub mod Telling
pub mod Answers
pub mod Laws
