pub mod Limited
pub mod Seeing
