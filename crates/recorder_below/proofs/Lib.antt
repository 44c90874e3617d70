pub mod Made
pub mod Called
pub mod Stepped
pub mod Prepares
pub mod Scripted
pub mod Answered
