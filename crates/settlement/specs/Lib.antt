pub mod Faults
pub mod Closing
pub mod Closed
pub mod Law
