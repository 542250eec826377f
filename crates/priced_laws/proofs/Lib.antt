pub mod Limits
pub mod Places
pub mod Reached
pub mod Reaching
pub mod Seeing
pub mod Worth
