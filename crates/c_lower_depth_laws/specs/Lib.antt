pub mod Expressions
pub mod Names
pub mod Bodies
pub mod Functions
pub mod Laws
