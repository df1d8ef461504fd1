pub mod Faults
pub mod Kinds
pub mod Parts
pub mod Reading
pub mod Tables
