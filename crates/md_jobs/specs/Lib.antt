pub mod Scripts
pub mod Contents
pub mod Sources
pub mod Sheets
pub mod Reading
