pub mod Ascending
pub mod Changes
pub mod HeldSets
pub mod Rows
pub mod Trails
