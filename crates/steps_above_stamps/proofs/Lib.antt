pub mod Counted
pub mod Latest
pub mod Stamped
pub mod Ranges
pub mod Plain
pub mod Few
pub mod Distinct
pub mod Counting
