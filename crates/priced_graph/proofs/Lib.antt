pub mod Built
pub mod Closed
pub mod Digits
pub mod Listed
pub mod Tied
