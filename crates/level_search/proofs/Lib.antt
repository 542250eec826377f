pub mod Crafts
pub mod Reached
pub mod Search
pub mod Stills
pub mod Ways
