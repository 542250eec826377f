pub mod Codes
pub mod Events
pub mod Sound
pub mod Seats
pub mod Samples
