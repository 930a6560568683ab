pub mod Actors
pub mod Teams
