pub mod Numbers
mod Places
mod Meanings
mod Starts
mod Ends
