pub mod Kinds
pub mod Places
pub mod Ranges
pub mod Marks
pub mod Bytes
pub mod Cases
pub mod Wants
pub mod Opens
