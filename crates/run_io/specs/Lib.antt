pub mod Answering
pub mod Ends
pub mod FaultLine
pub mod Halts
pub mod Reading
pub mod Statuses
pub mod Tasks
