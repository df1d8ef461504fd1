pub mod Configuring
pub mod Reading
