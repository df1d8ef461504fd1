pub mod Naming
pub mod Rewritten
pub mod Steps
