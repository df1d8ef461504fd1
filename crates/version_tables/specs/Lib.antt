pub mod Faults
pub mod Backed
pub mod Records
pub mod Walks
pub mod Indexes
pub mod VersionLists
pub mod Chained
