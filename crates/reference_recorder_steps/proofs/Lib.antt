pub mod Made
pub mod Reading
