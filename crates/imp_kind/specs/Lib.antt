pub mod Kinds
pub mod Base
pub mod Imports
