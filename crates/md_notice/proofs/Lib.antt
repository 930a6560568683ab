pub mod Brought
pub mod Received
pub mod Versions
