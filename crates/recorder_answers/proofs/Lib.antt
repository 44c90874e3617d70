pub mod Faces
pub mod Scripted
pub mod Interfaces
pub mod Given
pub mod Answered
