pub mod Shown
pub mod Read
pub mod FirstForbidden
pub mod Registered
pub mod Called
pub mod Undone
pub mod Ends
mod Bounded
mod Handed
mod SaidKeys
pub mod FewKeys
mod Next
mod CallModes
