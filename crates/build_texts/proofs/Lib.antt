mod CountLemmas
mod PlaceLemmas
pub mod RecordLemmas
mod ReplayLemmas
