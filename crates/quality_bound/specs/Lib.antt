pub mod Seen
pub mod Truths
