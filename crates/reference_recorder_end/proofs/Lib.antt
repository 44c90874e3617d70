mod Blank
mod Stopped
mod Ended
mod Recording
