pub mod Laws
pub mod Exists
