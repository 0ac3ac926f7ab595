pub mod Limits
pub mod Rows
pub mod Refusals
pub mod Years
pub mod Filing
pub mod Publishing
pub mod Filed
