pub mod Names
pub mod OfNames
pub mod NamedFiles
pub mod Keeping
pub mod Changing
pub mod Unchanged
pub mod Fitting
