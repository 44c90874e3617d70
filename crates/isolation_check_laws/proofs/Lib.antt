pub mod Fits
pub mod Aligned
