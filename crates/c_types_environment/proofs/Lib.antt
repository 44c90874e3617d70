pub mod Kept
pub mod Capped
pub mod Found
pub mod Defined
pub mod Builtins
pub mod Agreed
pub mod Reached
