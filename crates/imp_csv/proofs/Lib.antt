pub mod Ends
pub mod Texts
pub mod Readings
pub mod Numbers
pub mod Tables
pub mod Cuts
