pub mod Registered
pub mod Returned
pub mod Showing
pub mod Same
pub mod Blank
pub mod Standing
