pub mod Asking
pub mod Nearest
pub mod Together
