pub mod Tables
pub mod Hashes
pub mod Alike
