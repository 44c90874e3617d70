pub mod Inputs
pub mod Prepared
pub mod Stands
pub mod Turns
pub mod Ends
pub mod Plain
