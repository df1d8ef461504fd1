pub mod ProbedLemmas
