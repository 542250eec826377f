mod FaultLength
pub mod Endings
pub mod Runs
pub mod Tasks
