pub mod Scene
pub mod Runs
pub mod Listed
