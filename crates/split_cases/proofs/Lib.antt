pub mod GrownLemmas
pub mod OpenedLemmas
