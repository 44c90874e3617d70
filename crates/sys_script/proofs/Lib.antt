pub mod Listed
pub mod Same
