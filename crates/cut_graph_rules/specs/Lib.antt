pub mod Mentions
pub mod Sources
pub mod MayRun
pub mod Findings
pub mod Cases
