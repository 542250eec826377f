pub mod Columns
pub mod Covers
pub mod Kept
pub mod Keys
pub mod Lists
pub mod Packed
pub mod Parts
pub mod Pieces
