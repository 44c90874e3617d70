pub mod Areas
pub mod Addresses
pub mod Images
pub mod Places
pub mod Cases
