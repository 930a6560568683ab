mod Fits
mod Texts
pub mod Well
