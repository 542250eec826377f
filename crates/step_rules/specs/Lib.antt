pub mod Legality
pub mod Macro
pub mod Measure
pub mod Run
pub mod Step
