pub mod Bytes
pub mod Words
pub mod Signs
pub mod Numbers
pub mod Texts
pub mod Gaps
pub mod Items
pub mod Lexing
