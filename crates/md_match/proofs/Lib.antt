pub mod Checks
pub mod Times
pub mod Trees
pub mod Words
pub mod Crossing
