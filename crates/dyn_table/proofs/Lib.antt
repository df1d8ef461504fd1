pub mod Placed
pub mod StringTable
pub mod Ends
