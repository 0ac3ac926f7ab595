pub mod Layers
pub mod Figures
pub mod lemmas
