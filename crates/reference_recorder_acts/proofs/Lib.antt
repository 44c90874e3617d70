pub mod Marked
pub mod Plain
pub mod Touched
pub mod Read
pub mod Entered
pub mod NumberBytes
