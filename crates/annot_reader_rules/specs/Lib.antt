pub mod Misplaced
pub mod Notes
pub mod Regions
pub mod Functions
pub mod Cuts
