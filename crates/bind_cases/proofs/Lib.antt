pub mod OneRunLemmas
