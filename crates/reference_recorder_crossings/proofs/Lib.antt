pub mod ReturnChecks
pub mod CallChecks
pub mod PieceChecks
