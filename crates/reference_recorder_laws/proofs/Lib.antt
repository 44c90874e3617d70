pub mod Low
pub mod Stamped
pub mod Short
pub mod AtEnd
pub mod Stops
