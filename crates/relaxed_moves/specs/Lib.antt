pub mod Budget
pub mod Columns
pub mod FirstMoves
pub mod Inside
pub mod Moves
pub mod Optimum
pub mod Places
pub mod Scales
