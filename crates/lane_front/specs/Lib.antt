pub mod Lanes
pub mod Cover
pub mod MaxPlus
