pub mod Ahead
pub mod Places
pub mod Shelves
pub mod Sweeping
