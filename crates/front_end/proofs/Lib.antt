mod Lowering
mod Refusals
mod Accepting
pub mod OneAnswer
mod Few
mod Strings
