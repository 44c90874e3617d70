pub mod Readers
pub mod Codes
pub mod Loops
pub mod Varint
pub mod Spelled
pub mod Prefixes
