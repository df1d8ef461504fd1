pub mod Files
pub mod Hosts
pub mod LibPlaces
pub mod Missing
pub mod Named
pub mod Reaching
pub mod Sets
pub mod Verdicts
