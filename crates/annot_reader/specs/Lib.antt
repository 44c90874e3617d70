pub mod Sources
pub mod Interface
pub mod Errors
pub mod Headings
pub mod Builtins
pub mod Reading
pub mod Interfaces
