pub mod PlacesSoFar
pub mod Frames
pub mod Replies
pub mod Breaches
pub mod Steps
pub mod Failing
