pub mod Craft
pub mod Inside
pub mod NotLess
pub mod Pack
