pub mod KnownLemmas
pub mod LesserLemmas
pub mod TakenLemmas
pub mod VersionFileLemmas
pub mod AddingLemmas
