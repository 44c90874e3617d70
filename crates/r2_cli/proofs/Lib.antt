pub mod Lists
pub mod FormLemmas
pub mod SourceLemmas
pub mod CommandLemmas
pub mod CauseLemmas
pub mod RunLemmas
pub mod Rounds
pub mod Recordings
