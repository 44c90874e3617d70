mod Bits
mod Rounds
mod Places
mod Flat
pub mod Lasts
mod Kept
mod State
