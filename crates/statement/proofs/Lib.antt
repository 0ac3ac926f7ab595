pub mod Summing
pub mod Tallying
pub mod Telling
pub mod Stating
