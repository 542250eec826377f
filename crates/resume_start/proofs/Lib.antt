pub mod Apart
pub mod Rest
