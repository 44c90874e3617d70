pub mod Statements
pub mod Declarations
pub mod Programs
