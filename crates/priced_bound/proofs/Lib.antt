pub mod Asked
pub mod Counting
pub mod Cutting
pub mod Lists
pub mod Needs
pub mod Sighted
pub mod Told
