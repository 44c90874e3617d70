pub mod Carried
pub mod Reads
