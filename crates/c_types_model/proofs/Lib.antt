mod Capped
mod Multiples
pub mod Steps
