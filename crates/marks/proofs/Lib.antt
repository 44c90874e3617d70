pub mod Touched
pub mod Returned
