pub mod Places
pub mod Conversions
pub mod Placement
pub mod Laws
pub mod Code
pub mod Heights
