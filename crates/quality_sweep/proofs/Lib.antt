pub mod Capped
pub mod Completing
pub mod Exploring
pub mod Placing
pub mod Putting
pub mod Turning
pub mod Choosing
