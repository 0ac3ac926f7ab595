pub mod Bounds
pub mod Costs
pub mod Discovery
pub mod Settling
pub mod Searching
