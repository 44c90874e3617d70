pub mod Names
pub mod Cuts
mod Accepted
