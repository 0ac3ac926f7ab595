pub mod Retainers
pub mod Fifths
pub mod lemmas
