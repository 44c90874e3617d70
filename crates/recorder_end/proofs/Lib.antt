mod Stopped
mod Reasons
mod Few
mod Stopping
