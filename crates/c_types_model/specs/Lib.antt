pub mod Types
pub mod Layouts
