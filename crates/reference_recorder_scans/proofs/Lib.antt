pub mod AboveCut
pub mod Bytes
pub mod Found
pub mod Scanning
