pub mod Recordings
pub mod Steps
