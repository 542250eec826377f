pub mod Marks
pub mod Rivals
pub mod Written
