pub mod Schedule
pub mod Threads
pub mod Answers
pub mod AnswerLists
pub mod System
