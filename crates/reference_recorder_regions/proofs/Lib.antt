pub mod FirstAt
pub mod Folds
pub mod Stacks
