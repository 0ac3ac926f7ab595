pub mod Rows
pub mod Runs
pub mod Layers
pub mod Taken
pub mod Reading
