pub mod Bounds
pub mod Choices
pub mod Inside
pub mod Places
pub mod Reckoned
pub mod Tables
