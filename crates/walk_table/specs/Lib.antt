pub mod Graph
pub mod Made
pub mod Pieces
pub mod Tables
pub mod Tops
pub mod Walks
pub mod Words
