mod Ranges
mod Changes
mod Kept
mod Placing
mod Refused
mod Returned
mod Ends
mod Rows
