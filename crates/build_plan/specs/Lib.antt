pub mod Building
pub mod Deciding
pub mod Refusals
pub mod Steps
