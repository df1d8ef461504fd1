pub mod Found
pub mod Loads
pub mod Backed
pub mod Ranges
pub mod Naming
pub mod LoadPairs
pub mod TagPlaces
