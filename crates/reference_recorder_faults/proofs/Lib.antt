pub mod Forms
pub mod Found
pub mod FirstBad
pub mod Stopped
