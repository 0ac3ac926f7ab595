pub mod Places
pub mod Sides
pub mod Lists
