pub mod Calls
pub mod Folder
pub mod InMemory
pub mod MemOut
pub mod MemTree
pub mod Reading
pub mod View
