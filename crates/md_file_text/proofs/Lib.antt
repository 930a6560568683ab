pub mod Listed
pub mod Plain
pub mod Pushed
pub mod Ranges
