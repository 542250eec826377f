pub mod Continuation
pub mod Total
pub mod Transitive
