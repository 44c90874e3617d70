mod Threads
mod Sides
mod Above
mod Replays
