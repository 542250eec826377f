pub mod Building
pub mod Graphs
pub mod Inside
pub mod Numbers
pub mod Sights
pub mod Ties
