pub mod Ending
pub mod Inputs
pub mod Limited
pub mod Once
pub mod Proved
pub mod Resumed
pub mod Sampled
