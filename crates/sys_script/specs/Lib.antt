pub mod Externals
pub mod Listing
