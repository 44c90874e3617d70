pub mod Holders
