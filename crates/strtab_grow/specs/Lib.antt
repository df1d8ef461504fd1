pub mod Growth
pub mod Stops
