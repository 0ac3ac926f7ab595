pub mod Words
pub mod Text
pub mod Counting
pub mod Numbering
