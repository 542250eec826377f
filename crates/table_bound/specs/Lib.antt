pub mod Bounds
pub mod Columns
