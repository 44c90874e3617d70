pub mod State
pub mod Tickets
pub mod Stamps
pub mod Laws
