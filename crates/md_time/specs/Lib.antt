pub mod PaddedText
pub mod IsoTexts
pub mod Moments
pub mod Printed
