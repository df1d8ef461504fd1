pub mod GrownLemmas
