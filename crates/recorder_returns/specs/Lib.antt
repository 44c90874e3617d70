pub mod Bringing
pub mod Saying
pub mod Coming
pub mod Copies
pub mod Recording
