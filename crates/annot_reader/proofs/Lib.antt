pub mod FunctionTypes
mod Headings
mod Typed
mod Listed
mod Headed
mod Noting
mod Meant
mod Finding
mod Saying
