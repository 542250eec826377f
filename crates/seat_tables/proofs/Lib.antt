pub mod Keeps
pub mod Stills
