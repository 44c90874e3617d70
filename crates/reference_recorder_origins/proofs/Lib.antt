pub mod Blind
pub mod Memory
pub mod Parts
pub mod Racing
