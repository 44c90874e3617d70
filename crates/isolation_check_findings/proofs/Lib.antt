pub mod Ordered
pub mod Adding
pub mod InOrder
pub mod Derived
pub mod Naming
pub mod Noted
pub mod Exact
pub mod Whole
