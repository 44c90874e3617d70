pub mod Formats
pub mod Adding
pub mod Logs
pub mod Causes
pub mod Whole
pub mod PutTexts
