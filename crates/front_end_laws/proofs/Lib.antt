pub mod Found
mod MainWords
mod Rules
mod Declared
mod Followed
mod Listed
pub mod Whole
