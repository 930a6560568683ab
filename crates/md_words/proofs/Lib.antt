pub mod Joining
pub mod ManyPaths
pub mod Searching
pub mod Numerals
pub mod Spacing
