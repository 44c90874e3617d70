pub mod Open
pub mod EventText
pub mod ThreadText
pub mod Ending
pub mod MemoryText
pub mod Rows
pub mod ReportText
pub mod Parts
