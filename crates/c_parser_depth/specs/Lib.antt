pub mod Deep
pub mod Chains
pub mod Effects
pub mod Seen
