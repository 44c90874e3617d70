pub mod Builtins
pub mod Frames
pub mod Externals
