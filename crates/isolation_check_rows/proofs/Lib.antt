pub mod Steps
pub mod Has
pub mod Firsts
