pub mod OneLemmas
pub mod PlaceLemmas
pub mod RecordLemmas
pub mod WholeLemmas
