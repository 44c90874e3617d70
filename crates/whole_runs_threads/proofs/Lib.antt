pub mod Own
pub mod Framing
pub mod Values
pub mod Suits
