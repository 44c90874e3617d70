pub mod Pigeons
pub mod Falls
pub mod Values
pub mod Ends
pub mod Lower
pub mod Tokens
pub mod Spelled
