mod Answered
mod Asking
mod Turning
mod Going
mod Roomy
