pub mod Lines
pub mod FirstLine
pub mod Reading
pub mod Mark
