pub mod Code
pub mod Replays
