pub mod Along
pub mod Complete
pub mod Padding
pub mod Turns
