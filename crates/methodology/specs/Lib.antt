pub mod Limits
pub mod Meaning
pub mod Markets
pub mod Names
pub mod Heads
