pub mod Held
pub mod Values
pub mod Passing
pub mod Bodies
pub mod Locals
pub mod Params
pub mod Programs
pub mod Frames
mod Small
pub mod Whole
