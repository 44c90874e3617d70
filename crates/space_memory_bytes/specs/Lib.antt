pub mod Areas
pub mod Numbers
pub mod AreaChanges
pub mod Marks
pub mod Nexts
