mod MachineLemmas
mod SourceLemmas
mod SpokenLemmas
pub mod EverywhereLemmas
