pub mod Finding
pub mod Binders
pub mod Firsts
pub mod Asking
