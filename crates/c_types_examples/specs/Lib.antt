pub mod Small
pub mod Annotated
pub mod Heard
