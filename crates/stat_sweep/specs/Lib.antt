pub mod Bases
pub mod Halving
pub mod Sweeping
