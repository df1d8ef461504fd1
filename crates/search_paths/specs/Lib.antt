pub mod Tokens
pub mod HeldItems
pub mod Searching
