pub mod Given
pub mod Found
pub mod Named
pub mod Sorted
