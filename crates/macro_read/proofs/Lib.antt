pub mod Names
pub mod Once
pub mod Written
pub mod Sizes
pub mod Marks
