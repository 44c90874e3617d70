pub mod Worlds
pub mod Play
pub mod Sums
pub mod Locks
pub mod Regions
pub mod Crossings
