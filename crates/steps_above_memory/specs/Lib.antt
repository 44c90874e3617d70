pub mod Above
pub mod Refusals
pub mod Steps
pub mod Events
pub mod Returns
pub mod Parts
pub mod Calls
pub mod Spaces
