pub mod Spelling
pub mod Reading
pub mod Varint
pub mod Numbers
