pub mod Scopes
pub mod Bindings
