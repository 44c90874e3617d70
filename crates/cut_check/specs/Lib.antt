pub mod Sources
pub mod Lines
pub mod Interfaces
pub mod Stubs
pub mod Flags
pub mod Guards
