pub mod Runs
pub mod Journals
pub mod Moves
pub mod Slots
pub mod Passing
pub mod Entries
pub mod Crossing
