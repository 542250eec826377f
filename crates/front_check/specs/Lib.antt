pub mod Judging
pub mod Levels
pub mod Named
pub mod Seated
pub mod Verified
