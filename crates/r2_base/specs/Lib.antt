pub mod Causes
pub mod Seen
pub mod Sinks
pub mod Names
pub mod Held
pub mod Listed
pub mod Memory
