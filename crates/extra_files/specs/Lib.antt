pub mod Copying
pub mod Extras
pub mod Faults
pub mod Stems
