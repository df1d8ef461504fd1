pub mod Report
pub mod Places
