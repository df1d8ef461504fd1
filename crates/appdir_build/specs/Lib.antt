pub mod AppRun
pub mod Files
pub mod Objects
pub mod Outcome
pub mod Refusals
pub mod Writing
