pub mod Picking
pub mod Rounds
