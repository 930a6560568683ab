pub mod Draws
pub mod Files
pub mod Scripts
pub mod Reads
