mod Steps
mod Numbers
mod Sorted
mod Same
