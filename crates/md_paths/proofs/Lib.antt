pub mod Sorting
mod Adding
