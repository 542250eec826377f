pub mod Numbers
pub mod Walks
pub mod Strays
pub mod OptionForm
pub mod Listed
