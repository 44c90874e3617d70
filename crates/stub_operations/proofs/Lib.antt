mod Places
pub mod Growing
