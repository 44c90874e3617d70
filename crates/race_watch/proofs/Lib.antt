pub mod Earliest
pub mod Rows
pub mod Last
pub mod Quiet
pub mod Happens
pub mod Epochs
pub mod Firsts
pub mod Raced
