pub mod NameLemmas
pub mod PairLemmas
pub mod FileLemmas
pub mod ChangeLemmas
pub mod UnchangedLemmas
pub mod TextLemmas
pub mod StandingLemmas
pub mod FittingLemmas
