pub mod Short
pub mod Steps
pub mod Making
pub mod TypedCode
