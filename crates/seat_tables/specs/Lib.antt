pub mod Plays
pub mod Seats
