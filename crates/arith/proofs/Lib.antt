pub mod Floors
pub mod Shares
