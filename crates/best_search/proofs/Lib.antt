pub mod Backward
pub mod Free
pub mod Tabled
pub mod Taking
