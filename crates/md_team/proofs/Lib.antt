pub mod Crossing
pub mod Running
