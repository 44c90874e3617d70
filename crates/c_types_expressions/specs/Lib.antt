pub mod Found
pub mod Pieces
pub mod Walks
pub mod Specified
