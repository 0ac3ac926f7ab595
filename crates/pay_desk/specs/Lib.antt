pub mod Desk
pub mod Houses
