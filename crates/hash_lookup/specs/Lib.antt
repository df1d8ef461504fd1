pub mod Finding
pub mod Chains
pub mod Listed
