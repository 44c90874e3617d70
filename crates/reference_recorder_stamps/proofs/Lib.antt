pub mod Counted
pub mod Stamped
