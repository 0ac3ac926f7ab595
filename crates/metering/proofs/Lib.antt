pub mod Listed
pub mod Limited
pub mod Same
pub mod Clock
