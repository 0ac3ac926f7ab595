pub mod Pieces
pub mod Figures
pub mod Numbered
pub mod Messages
