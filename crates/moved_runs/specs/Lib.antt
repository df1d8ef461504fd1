pub mod Moved
pub mod Placed
pub mod Places
pub mod Alike
pub mod SameRuns
pub mod OpenedThere
pub mod SmallDirectory
