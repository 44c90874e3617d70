pub mod Calls
pub mod Firsts
pub mod Lists
pub mod Ranges
pub mod Returns
