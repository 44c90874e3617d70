pub mod Locks
pub mod Order
pub mod Examples
pub mod Held
