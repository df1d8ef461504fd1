pub mod Asking
pub mod Known
pub mod Loading
pub mod Standing
