pub mod Sizes
pub mod Chunks
pub mod Book
