pub mod QuotaDues
pub mod Small
pub mod Figures
pub mod Rates
pub mod Steps
pub mod Sheet
pub mod Joint
