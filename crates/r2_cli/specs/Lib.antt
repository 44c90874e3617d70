pub mod Words
pub mod Forms
pub mod Source
pub mod System
pub mod Commands
pub mod Causes
