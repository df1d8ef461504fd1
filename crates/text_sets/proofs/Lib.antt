pub mod FoundLemmas
pub mod MappedLemmas
