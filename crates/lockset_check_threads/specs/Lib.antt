pub mod Wants
pub mod Typed
pub mod Laws
pub mod Examples
