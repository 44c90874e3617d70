pub mod Fits
pub mod Members
