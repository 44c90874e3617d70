pub mod Runs
pub mod Edges
