pub mod Ascii
pub mod Bytes
pub mod Finds
pub mod Parts
pub mod Scans
pub mod Wilds
