pub mod Asks
pub mod Askers
pub mod Gathered
