pub mod Stands
pub mod Calls
pub mod Shown
pub mod Laws
pub mod Fit
