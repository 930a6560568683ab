pub mod Answered
pub mod Lexed
pub mod Verdicts
pub mod Readings
