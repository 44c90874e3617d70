pub mod Cells
pub mod Ready
