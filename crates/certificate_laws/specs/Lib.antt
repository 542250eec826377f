pub mod Certificate
pub mod Claims
pub mod Example
pub mod Lines
pub mod Made
