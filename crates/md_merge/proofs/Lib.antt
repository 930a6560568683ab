pub mod Tickets
pub mod Latest
pub mod Drawing
pub mod Ending
pub mod Asked
pub mod Tabling
pub mod Sharing
pub mod Joined
pub mod Closing
pub mod Closed
pub mod Turned
pub mod Actors
mod Examples
