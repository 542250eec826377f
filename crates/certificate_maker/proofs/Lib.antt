pub mod Bucketed
pub mod Levelled
pub mod Marked
pub mod Rowed
pub mod Settling
pub mod Texted
pub mod Tying
