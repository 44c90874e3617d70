pub mod Room
pub mod Refusals
pub mod Making
