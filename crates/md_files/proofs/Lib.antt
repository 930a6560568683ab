pub mod Additions
pub mod Answering
pub mod Causes
pub mod CountedFiles
pub mod Counting
pub mod Orders
pub mod ShownFiles
pub mod Turns
