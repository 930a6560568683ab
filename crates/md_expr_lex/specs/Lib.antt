pub mod Find
pub mod Prefix
pub mod Kinds
pub mod Numbers
pub mod Signs
pub mod Strings
pub mod Times
