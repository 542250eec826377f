pub mod Attained
pub mod Columns
pub mod Graphs
pub mod Lanes
pub mod Lists
pub mod Places
pub mod Raising
pub mod Tops
