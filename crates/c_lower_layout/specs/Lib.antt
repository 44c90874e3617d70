pub mod Sources
pub mod Indexed
pub mod Sigs
pub mod Offsets
