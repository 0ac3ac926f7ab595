mod Ranges
mod Bounds
mod Adjusting
mod Filling
