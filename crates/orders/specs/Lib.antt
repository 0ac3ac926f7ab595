pub mod Limits
pub mod Refusals
pub mod Money
pub mod Tills
pub mod Places
