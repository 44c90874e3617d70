pub mod Granted
pub mod SoundCut
pub mod Answering
