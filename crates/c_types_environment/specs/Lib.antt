pub mod TypeCodes
pub mod Reading
pub mod States
pub mod Nodes
