mod Places
mod Steps
pub mod Around
mod Scoping
mod Wording
mod Listing
mod Naming
pub mod Composed
pub mod Marking
mod Fitting
mod Sorting
mod Factors
pub mod Saying
pub mod Staying
mod Finding
mod Holding
mod Apart
mod Placing
mod Beside
mod Sharing
pub mod Numbers
