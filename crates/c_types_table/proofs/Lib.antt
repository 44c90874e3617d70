mod TypeLists
pub mod Extents
mod SameIds
mod Alike
mod Distinct
mod Inserts
