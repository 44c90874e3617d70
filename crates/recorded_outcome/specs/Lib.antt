pub mod Recorded
pub mod Stages
