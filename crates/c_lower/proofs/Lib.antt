pub mod Same
pub mod Long
pub mod Standing
pub mod Laid
pub mod Emitted
pub mod Valid
pub mod Naming
pub mod Names
pub mod Gathered
pub mod Types
mod Keeps
mod Among
pub mod Short
