pub mod Faults
pub mod Values
pub mod Files
pub mod Content
