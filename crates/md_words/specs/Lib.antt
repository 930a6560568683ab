pub mod Words
pub mod Numbers
pub mod Offsets
pub mod Options
pub mod Find
pub mod Grammar
