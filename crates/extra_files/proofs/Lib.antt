pub mod CheckLemmas
pub mod CopyLemmas
pub mod FirstLemmas
pub mod LauncherLemmas
pub mod LawLemmas
pub mod StemLemmas
pub mod StepLemmas
