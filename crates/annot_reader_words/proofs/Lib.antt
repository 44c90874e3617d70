pub mod Folding
pub mod Lists
mod Folds
mod Nearest
pub mod Showing
mod Globals
mod Later
mod CutNames
pub mod Composing
mod Sayings
mod Heights
mod Walking
pub mod Loops
