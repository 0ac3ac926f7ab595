pub mod Limits
pub mod Heads
