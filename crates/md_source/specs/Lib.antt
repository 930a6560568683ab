pub mod Causes
pub mod Listing
pub mod Memory
pub mod Puts
pub mod PlannedTree
pub mod Tree
pub mod Adapters
