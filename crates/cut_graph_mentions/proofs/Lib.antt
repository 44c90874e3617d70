pub mod Growing
pub mod Weights
pub mod Nodes
pub mod Lists
pub mod SameTypes
pub mod ByParts
