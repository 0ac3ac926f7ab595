pub mod Limits
pub mod Sums
pub mod Counts
pub mod Rules
pub mod Tables
pub mod Months
pub mod Books
pub mod Sheets
