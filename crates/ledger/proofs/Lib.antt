pub mod Terms
pub mod Hand
pub mod Places
pub mod Months
