mod CutLists
mod CutStand
mod CutWords
mod CutSteps
mod CutNext
mod CutLeft
