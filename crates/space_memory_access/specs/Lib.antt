pub mod Refusals
pub mod Accesses
pub mod Holders
pub mod Held
pub mod Spans
