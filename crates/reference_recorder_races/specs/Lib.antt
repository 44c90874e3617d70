pub mod Least
pub mod Hits
pub mod Told
pub mod Races
