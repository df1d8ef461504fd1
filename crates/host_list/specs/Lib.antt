pub mod Answers
pub mod Recording
pub mod Places
pub mod Versions
pub mod Meeting
