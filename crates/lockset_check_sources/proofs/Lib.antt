mod Found
mod Expressions
mod Bodies
mod Programs
mod Constants
mod Tables
mod Annotations
mod Accepted
