pub mod Rows
pub mod Firsts
