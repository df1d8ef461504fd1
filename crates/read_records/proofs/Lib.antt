pub mod BuildBytesLemmas
pub mod FaceBytesLemmas
pub mod FileLemmas
pub mod RecordBytesLemmas
pub mod TextBytesLemmas
