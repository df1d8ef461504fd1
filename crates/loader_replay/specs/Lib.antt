pub mod Answering
pub mod Binding
pub mod Checking
