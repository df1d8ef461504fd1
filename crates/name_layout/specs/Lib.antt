pub mod Openings
pub mod Layouts
pub mod Sets
pub mod Opened
pub mod Taken
pub mod Laws
