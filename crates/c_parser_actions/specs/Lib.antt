pub mod Ahead
pub mod Pieces
pub mod Builds
pub mod Seen
pub mod Plans
