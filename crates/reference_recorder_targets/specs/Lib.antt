pub mod Annotated
pub mod Places
pub mod Said
