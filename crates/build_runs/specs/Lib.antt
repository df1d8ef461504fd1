pub mod Answering
pub mod BuildRuns
pub mod Checking
pub mod FirstStops
pub mod Loading
pub mod Ordering
pub mod Stops
