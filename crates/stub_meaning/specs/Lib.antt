pub mod Calls
pub mod Meaning
pub mod Rules
pub mod Fits
pub mod Scenes
