pub mod Splits
pub mod Growth
