pub mod Answered
pub mod Regions
