pub mod CutLemmas
pub mod KeyLemmas
pub mod LineLemmas
pub mod StateLemmas
pub mod WordLemmas
