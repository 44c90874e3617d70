mod Ranges
mod Same
mod Faults
