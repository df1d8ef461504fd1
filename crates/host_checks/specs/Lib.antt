pub mod Hosting
pub mod Reading
pub mod Verdicts
