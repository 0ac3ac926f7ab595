pub mod Quota
pub mod Adjustment
pub mod Closing
pub mod FirstMonth
pub mod Cases
