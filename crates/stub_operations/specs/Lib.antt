pub mod Growing
pub mod Operations
pub mod Builtins
pub mod Stubs
pub mod Examples
