pub mod Heights
pub mod Named
pub mod Numbers
pub mod Walks
