pub mod HostLemmas
pub mod HostNumberLemmas
pub mod LookLemmas
pub mod OwnAskLemmas
pub mod RecordedLemmas
pub mod RecordedVersionLemmas
