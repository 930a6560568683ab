pub mod Jobs
pub mod Journals
pub mod Merging
pub mod Laws
pub mod Joining
