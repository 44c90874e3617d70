pub mod Cuts
pub mod FarEnds
pub mod Firsts
pub mod Joined
pub mod Hex
pub mod Digits
pub mod Names
pub mod Steps
pub mod NearTurns
mod Ranges
mod Repeats
