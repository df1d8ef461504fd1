pub mod VersionTables
pub mod HashTables
pub mod Parts
pub mod DynamicTable
pub mod Headers
pub mod Object
pub mod Generator
