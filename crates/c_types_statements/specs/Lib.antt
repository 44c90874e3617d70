pub mod Walks
pub mod Pieces
pub mod Typed
