pub mod Answering
pub mod Ending
pub mod Needing
pub mod Reaching
