pub mod Configs
pub mod Names
pub mod Ready
pub mod Settings
