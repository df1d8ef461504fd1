mod NumberLemmas
mod LookLemmas
mod VersionLemmas
pub mod OrderLemmas
pub mod CanonicalLemmas
pub mod ClosingLemmas
