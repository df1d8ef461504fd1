pub mod Bytes
pub mod Distinct
pub mod Versions
pub mod Texts
pub mod Symbols
