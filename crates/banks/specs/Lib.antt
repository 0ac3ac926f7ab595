pub mod Refusals
pub mod Rows
pub mod Placing
pub mod Sides
pub mod lemmas
