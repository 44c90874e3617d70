pub mod Found
pub mod Sized
pub mod Placing
pub mod Numbers
pub mod Laid
pub mod FoundMembers
pub mod SizedTypes
pub mod Rows
