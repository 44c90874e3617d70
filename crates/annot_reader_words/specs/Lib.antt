pub mod Words
pub mod Readings
pub mod Items
pub mod Steps
pub mod Shown
pub mod Answers
pub mod Sayings
pub mod Places
