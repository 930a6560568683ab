pub mod Key
pub mod Scan
pub mod Wild
