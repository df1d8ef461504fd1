pub mod AnswerLemmas
pub mod NamingLemmas
pub mod RewrittenLemmas
