pub mod Asking
pub mod Modes
pub mod Targets
pub mod ToldAbove
pub mod ToldBelow
