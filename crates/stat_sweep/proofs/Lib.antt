pub mod Bases
pub mod Enough
pub mod Halves
pub mod Scores
pub mod Small
