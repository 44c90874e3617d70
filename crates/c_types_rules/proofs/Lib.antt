pub mod SameTypes
pub mod Notes
