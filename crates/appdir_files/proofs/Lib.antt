pub mod CopyingLemmas
pub mod FolderLemmas
pub mod FolderPathLemmas
pub mod MappedLemmas
pub mod TakenLemmas
pub mod TestLemmas
pub mod WritingLemmas
