pub mod Chunks
