pub mod Answers
pub mod Faults
pub mod First
pub mod Told
