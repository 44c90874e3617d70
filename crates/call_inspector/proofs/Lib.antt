pub mod RowSteps
pub mod LineSteps
pub mod DropSteps
pub mod LiveRows
pub mod PartSteps
