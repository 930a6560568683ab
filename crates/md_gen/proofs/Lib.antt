pub mod Paths
pub mod Listed
pub mod More
mod Expressions
mod Stated
mod Written
mod Texts
mod Scripted
