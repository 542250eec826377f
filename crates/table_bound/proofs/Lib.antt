pub mod Filling
pub mod Fits
pub mod Moving
