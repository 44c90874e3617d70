pub mod BlocksBelow
pub mod OneKey
pub mod OneMode
pub mod Raced
pub mod Room
