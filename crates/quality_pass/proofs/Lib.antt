pub mod Qualities
pub mod Seats
