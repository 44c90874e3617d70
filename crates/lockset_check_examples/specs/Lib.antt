pub mod Found
pub mod Pieces
pub mod Programs
pub mod Further
