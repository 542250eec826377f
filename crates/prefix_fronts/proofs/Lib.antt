pub mod Best
pub mod Dominance
pub mod Dominated
pub mod Fronts
pub mod Inside
pub mod Members
pub mod Replaced
pub mod Sorted
