pub mod BuiltRuns
pub mod Renaming
pub mod Sources
