pub mod Asking
pub mod Near
pub mod Nodes
pub mod Passing
pub mod Walking
