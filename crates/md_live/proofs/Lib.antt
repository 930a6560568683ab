mod Counting
pub mod Ends
mod Headline
mod Holding
mod Rootless
pub mod Scripts
mod Summing
mod Telling
mod TimeForms
