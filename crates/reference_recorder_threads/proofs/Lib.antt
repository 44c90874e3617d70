pub mod Bytes
pub mod Replied
pub mod Reported
pub mod Marked
pub mod Oldest
