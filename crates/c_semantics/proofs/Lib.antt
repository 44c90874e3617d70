pub mod Relations
pub mod ValuePrefixes
pub mod StatementPrefixes
pub mod CallPrefixes
mod Prefixes
mod Nexts
mod Overs
mod Converted
mod Returned
pub mod ReplayMarks
mod BelowMarks
pub mod CutCalls
pub mod Parts
pub mod GivenBack
pub mod TypedReturns
pub mod TypedFunctions
pub mod Guarded
pub mod Carried
