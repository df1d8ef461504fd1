pub mod Within
pub mod VersionFiles
pub mod Numbered
pub mod NameFlawLemmas
