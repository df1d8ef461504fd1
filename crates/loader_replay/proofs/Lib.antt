pub mod BindingLemmas
pub mod AskLemmas
pub mod AnswerLemmas
