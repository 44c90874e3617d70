pub mod Preceding
