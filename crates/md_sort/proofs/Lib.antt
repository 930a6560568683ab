pub mod Totals
pub mod Placed
pub mod Alone
pub mod Slots
