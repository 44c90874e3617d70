pub mod Agreed
pub mod Flagged
