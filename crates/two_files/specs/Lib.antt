pub mod Alike
pub mod Entries
pub mod Kept
pub mod NewHeaders
