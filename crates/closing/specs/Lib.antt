pub mod Limits
pub mod Cases
pub mod Findings
pub mod Heads
pub mod Bills
