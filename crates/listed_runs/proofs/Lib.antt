pub mod ByNamesLemmas
pub mod FittingLemmas
