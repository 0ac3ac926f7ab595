pub mod Products
pub mod Keeping
pub mod Made
