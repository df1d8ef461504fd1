pub mod FileName
pub mod Path
pub mod Target
