pub mod AsciiTexts
pub mod Calendar
pub mod PaddedText
pub mod IsoMoments
pub mod Numbers
pub mod Pictures
pub mod Printing
