pub mod Words
pub mod Few
pub mod Pieces
pub mod Numbers
pub mod Wanted
pub mod Body
pub mod Runs
