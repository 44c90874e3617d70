mod Sound
mod Mentioned
mod Values
mod Statements
mod Calls
pub mod Wants
pub mod Accepted
pub mod Cuts
pub mod Known
pub mod Accesses
