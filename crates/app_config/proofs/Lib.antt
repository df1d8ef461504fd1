pub mod DirectoryLemmas
