pub mod Keeping
pub mod Loans
pub mod MachineFaces
pub mod Names
pub mod Reading
