pub mod Following
pub mod Counting
