pub mod Rows
pub mod Energy
pub mod Portions
pub mod Bounds
pub mod Indexing
