pub mod Money
pub mod Division
pub mod Scaling
pub mod Months
pub mod Interest
pub mod lemmas
