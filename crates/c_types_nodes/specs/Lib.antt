pub mod Parts
pub mod Tables
pub mod Forms
pub mod Sorts
pub mod Lists
pub mod Numbers
