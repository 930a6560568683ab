pub mod Chains
pub mod Places
pub mod Open
pub mod Pins
pub mod Readied
pub mod Stores
pub mod Kept
pub mod Named
