pub mod Checking
pub mod Cuts
pub mod Entries
pub mod Lines
pub mod Reading
pub mod States
