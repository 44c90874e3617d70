pub mod Stops
pub mod Recorded
