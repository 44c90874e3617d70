pub mod Numbered
pub mod Allocs
pub mod Frees
pub mod Ups
pub mod UpReturns
