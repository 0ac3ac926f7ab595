pub mod Sums
pub mod Adding
pub mod Counting
pub mod Growing
pub mod Regular
