pub mod ConfiguringLemmas
mod ReadingLemmas
