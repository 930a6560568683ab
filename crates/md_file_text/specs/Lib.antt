pub mod Paths
pub mod Attributes
pub mod Faults
