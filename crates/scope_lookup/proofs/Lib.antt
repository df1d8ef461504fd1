pub mod ScopeLemmas
pub mod KeepingLemmas
pub mod AskingLemmas
