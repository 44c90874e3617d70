pub mod Rows
pub mod Apart
