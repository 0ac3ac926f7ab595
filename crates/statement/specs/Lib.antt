pub mod Tallies
pub mod Bounds
pub mod Totals
pub mod Text
pub mod Sums
pub mod Statements
