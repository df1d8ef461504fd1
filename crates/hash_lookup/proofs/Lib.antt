pub mod ChainLemmas
pub mod SymbolLemmas
pub mod FindingLemmas
