pub mod Short
pub mod Running
