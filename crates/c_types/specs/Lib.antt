pub mod Errors
pub mod Quiet
pub mod Known
pub mod States
pub mod Members
pub mod Pieces
pub mod Answers
pub mod Texts
