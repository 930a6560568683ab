pub mod Making
pub mod Merged
pub mod Totals
