pub mod State
pub mod Returns
pub mod Stands
pub mod Laws
