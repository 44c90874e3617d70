pub mod Reversed
pub mod Weights
pub mod Called
pub mod Loops
pub mod Among
