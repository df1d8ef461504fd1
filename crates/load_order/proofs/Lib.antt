pub mod OrderingLemmas
pub mod OrderingRuns
pub mod OrderingSteps
pub mod ReachingLemmas
pub mod WalkingAsks
pub mod WalkingLists
pub mod WalkingSteps
