pub mod Collected
pub mod Found
pub mod Joined
pub mod Leading
pub mod Passing
pub mod Stacks
pub mod Tied
pub mod Turns
