pub mod OneOrder
pub mod Lines
pub mod OneText
pub mod Accepted
pub mod Said
pub mod MainPlace
mod Facts
mod FlagLists
mod GuardFlags
mod GuardTexts
mod Interfaces
mod Limits
mod Names
mod StubLists
mod Texts
