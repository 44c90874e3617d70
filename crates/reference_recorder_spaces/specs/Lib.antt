pub mod Next
pub mod Whole
