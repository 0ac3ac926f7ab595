pub mod Messages
pub mod Lines
pub mod Text
pub mod Plain
