pub mod Answers
pub mod Arms
pub mod Assignments
pub mod Calls
pub mod Lengths
pub mod Scalars
