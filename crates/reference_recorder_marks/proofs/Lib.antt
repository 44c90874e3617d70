pub mod Past
pub mod Pieces
